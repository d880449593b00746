pub mod BySpanLemmas

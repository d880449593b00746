pub mod CodeEqual
pub mod EdgeEqual
pub mod EntryEqual
pub mod KeyEqual
pub mod LocationLemmas
pub mod UnreadEqual

pub mod Above
pub mod DupEdges
pub mod EdgeLists

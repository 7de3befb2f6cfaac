pub mod Occupants
pub mod Queues
pub mod Notices
pub mod Peers

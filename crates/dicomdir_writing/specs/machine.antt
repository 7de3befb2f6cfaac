pub mod RowReading
pub mod RowRecords
pub mod Building
pub mod FirstSeen

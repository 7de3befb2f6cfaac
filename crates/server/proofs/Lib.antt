pub mod SlotsLoseNone
pub mod ReportsStay
pub mod SuccessesAreFiles
pub mod SuccessesSurvive

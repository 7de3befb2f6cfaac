pub mod SevenDigitsFit
pub mod NamesStayOrderly
pub mod WaitingFileIsNewest
pub mod ReportsAreDurable
pub mod FoldersAreSynced
pub mod ReportsSurvive
pub mod FilingsShare

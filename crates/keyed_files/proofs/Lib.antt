pub mod FrontsAreSame
pub mod VisitsContinue

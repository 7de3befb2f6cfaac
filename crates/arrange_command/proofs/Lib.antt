pub mod CopiesAreWhole
mod NamesArePrintable
mod PathsStayInTheTree
mod PatternsAreRead

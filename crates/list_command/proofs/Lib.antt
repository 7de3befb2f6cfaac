pub mod FilesAreKept
pub mod FirstFilesAreShown

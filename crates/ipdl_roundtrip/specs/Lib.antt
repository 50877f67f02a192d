pub mod Shown
pub mod ShownDocuments

pub mod Replies
mod Refusing
mod Answering
mod Shapes

pub mod Commands
pub mod HintLaws
pub mod Hints
pub mod Laws
pub mod Nearest
pub mod Operands
pub mod ShownWords
pub mod VerbRows

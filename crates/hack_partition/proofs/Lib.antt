pub mod PieceLemmas
mod PieceReading
mod PieceTexts

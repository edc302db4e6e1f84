pub use Rattle.book_workers.specs.Receipts
pub use Rattle.book_workers.specs.Wishes
pub mod Giving

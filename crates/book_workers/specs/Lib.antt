pub use Rattle.shared_book.specs.Receipts
pub mod Accounts
pub mod Wishes

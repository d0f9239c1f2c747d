pub mod RowFiles

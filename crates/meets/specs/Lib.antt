pub mod PageMet

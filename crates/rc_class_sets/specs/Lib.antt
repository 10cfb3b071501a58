pub mod Sets
pub mod Folding
pub mod Perl
pub mod Scalars
pub mod Others

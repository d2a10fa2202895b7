pub mod ShareCall

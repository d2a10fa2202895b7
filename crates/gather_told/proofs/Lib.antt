pub mod ToldCall

pub mod FileCall

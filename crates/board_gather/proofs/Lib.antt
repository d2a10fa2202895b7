pub mod GatherCall

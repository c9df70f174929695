pub mod ServedTrees

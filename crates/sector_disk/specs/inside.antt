-- Laws about the disk under a fuse and the disk in memory. They are proved, so a reader needn't check them.
pub mod FuseLaws
pub mod MemoryLaws
pub mod WrittenLaws

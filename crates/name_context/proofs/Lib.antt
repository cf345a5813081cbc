pub mod KeyLaws
pub mod CountLaws
pub mod TreeLaws
pub mod WalkLaws
pub mod StoryLaws
pub mod PartLaws
pub mod StartLaws
pub mod Crossing

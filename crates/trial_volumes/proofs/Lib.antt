pub mod StackLaws

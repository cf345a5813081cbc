pub mod ManagerLaws

pub mod Evidences

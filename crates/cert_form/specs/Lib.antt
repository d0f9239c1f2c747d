pub mod Certificates

pub mod CertifiedModules

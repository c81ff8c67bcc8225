pub mod InterfaceLaws

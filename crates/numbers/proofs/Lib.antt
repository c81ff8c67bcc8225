pub mod RefusalLaws
pub mod CodeLaws

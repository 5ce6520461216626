pub mod Tree
pub mod Rules
pub mod Machine
pub mod BigStep
pub mod Laws
pub mod Cases

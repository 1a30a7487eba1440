-- Several SM4 blocks side by side.
pub mod LanesLaws

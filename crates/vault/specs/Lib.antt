-- Opening a vault from its first byte: the header's hash and tag, the keys, and demand 3 as one statement.
pub mod Vault
pub mod Checked
pub mod Agreement

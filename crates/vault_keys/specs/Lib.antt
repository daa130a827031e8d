pub mod VaultKeys

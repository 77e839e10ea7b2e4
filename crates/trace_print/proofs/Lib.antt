pub mod HexDigits
pub mod ByteTexts

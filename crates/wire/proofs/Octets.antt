-- Lists of bytes: their definition, for laws.
pub use Rattle.wire.specs.Octets.{Bytes}

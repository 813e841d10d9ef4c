-- Definitions only: the laws about them are proved in proofs/.
--   Fields   the table of tags, the field at a position and its refusals, parts, stored bytes, eight bytes
--   Told     the field that code has read
--   Laws     what is known of a field that was read; a list spelled out
--   Put      the outcome of a writer
pub mod Fields
pub mod Told
pub mod Laws
pub mod Put

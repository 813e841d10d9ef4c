--   Heads     the cases of a field's reading
--   Laws      what a field that was read says of the file, and what reading a written field gives
--   PutLaws   bytes that are stored one after another, and the outcome of a writer (specs/Put.antt)
--   Tags      which tags may stand at each stage
--   Prefix    a field is decided by its own bytes
--   Eight     eight bytes and their number are one to one
pub mod Heads
pub mod Laws
pub mod PutLaws
pub mod Tags
pub mod Prefix
pub mod Eight

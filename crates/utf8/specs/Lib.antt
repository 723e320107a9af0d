-- Grammar: RFC 3629's grammar, and with it the promise of `text`. Scan: the same as a definition that can be run, which the
-- checks of other crates cite. Steps: what the private functions promise each other; no caller needs it. Assumes nothing.
pub mod Grammar
pub mod Scan
pub mod Steps

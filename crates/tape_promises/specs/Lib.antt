-- Load tapes: their grammar, what they hold, their refusals, and what is proved of these besides the contracts.
pub mod Grammar
pub mod Contents
pub mod Numbers
pub mod Claims

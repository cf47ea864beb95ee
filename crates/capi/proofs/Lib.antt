-- What the proofs of the exports use; that each answer is the only one.
mod Told
mod Calls
mod Once

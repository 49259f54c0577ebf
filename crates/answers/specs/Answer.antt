-- What every function of the boundary to C and Rust answers: one number below 2 ^ 64, document 01's refusal number and the values that come back with it. Definitions only.
use Rattle.std.specs.Prelude.{ℕ, ◌+◌, ◌*◌, ◌/◌, ◌%◌, ◌≡◌}

-- bits 0-7 the refusal number, 0 when answered; 8-15 a line, or Kepler rounds; 16-31 a column or a field; 32-63 bytes written, or strides
unfoldable pub answer : ℕ → ℕ → ℕ → ℕ → ℕ
answer refusal detail place count = refusal + 256 * detail + 65536 * place + 4294967296 * count

-- an answer is taken apart again where its parts fit their bits: `parts` of proofs/Parts
pub record Parts (refusal detail place count : ℕ) : Type 0 where
  pub bits_0_7 : answer refusal detail place count % 256 ≡ refusal
  pub bits_8_15 : answer refusal detail place count / 256 % 256 ≡ detail
  pub bits_16_31 : answer refusal detail place count / 65536 % 65536 ≡ place
  pub bits_32_63 : answer refusal detail place count / 4294967296 ≡ count

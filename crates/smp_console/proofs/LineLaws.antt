-- What the crate of lines promises by its laws, which these proofs are handed.
use Rattle.std.proofs.Common.{◌≡◌, ℕ, ◌^◌, ◌<◌, ◌≤◌, Bool, List, length, take}
use Rattle.smp_line.specs.Crc.{crc_of}
use Rattle.smp_line.specs.Line.{AreBytes, HasNoNewline, content, line_of, content_of}

-- 516 bytes of a line tell what it holds
abbrev pub FrontTells : Type 0
FrontTells = (line : List ℕ) → content (take 516 line) ≡ content line

-- a line that is written holds its bytes and no newline, and the CRC of a packet is a number of 16 bits
pub record LineLaws : Type 0 where
  pub held : (is_first : Bool) (bytes : List ℕ) → AreBytes bytes → length bytes ≤ 384 → content (line_of is_first bytes) ≡ content_of is_first bytes
  pub no_newline : (is_first : Bool) (bytes : List ℕ) → HasNoNewline (line_of is_first bytes)
  pub small : (bytes : List ℕ) → AreBytes bytes → crc_of bytes < 2 ^ 16

-- An engine of base64 that is kept.
use Rattle.std.specs.Prelude.{◌≡◌, ℕ, List}
use Rattle.base64.specs.declared.engine.general_purpose.GeneralPurpose.{GeneralPurpose}
use Rattle.base64.specs.Engines.{standard}
use Rattle.base64.specs.GeneralPurpose.{decode_of}

-- It decodes each text as the standard one does.
abbrev pub IsStandard : GeneralPurpose → Type 0
IsStandard engine = (text : List ℕ) → decode_of engine text ≡ decode_of standard text

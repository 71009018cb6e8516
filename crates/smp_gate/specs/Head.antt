-- What the head of a side says, and which side is the newest by their heads.
use Rattle.std.specs.Prelude.{ℕ, Bool, true, false, nat_lt, if◌then◌else◌, List, Option, Some, None}
use Rattle.smp_gate.specs.Side.{is_valid, generation_in, length_in}
use Rattle.smp_gate.specs.declared.head.Head.{Head}
use Rattle.smp_gate.specs.declared.head.Choice.{Choice}

abbrev pub head_by : Bool → List ℕ → Option Head
head_by true bytes = Some (record { generation = generation_in bytes; size = length_in bytes })
head_by false bytes = None

-- the head in the first sixteen bytes of a side, where the side is valid
abbrev pub head_in : List ℕ → Option Head
head_in bytes = head_by (is_valid bytes) bytes

-- the side of the greater generation, the first where they are equal
abbrev pub chosen : Option Head → Option Head → Option Choice
chosen None None = None
chosen (Some x) None = Some (record { second = false; head = x })
chosen None (Some y) = Some (record { second = true; head = y })
chosen (Some x) (Some y) = if nat_lt x.generation y.generation then Some (record { second = true; head = y }) else Some (record { second = false; head = x })

-- What is known while TLVs are read one after the other.
use Rattle.std.specs.Prelude.{◌≡◌, ℕ, ◌-◌, ◌<◌, ◌≤◌, List, [], ◌∷◌, filter, Option, Some, None, Result, Err}
use Rattle.smp_flash.specs.Area.{area}
use Rattle.smp_model.specs.Image.{Tlv, is_hash, only_hash, tlvs_of, info_of}
use Rattle.smp_model.specs.declared.image.ImageHeader.{ImageHeader}
use Rattle.smp_model.specs.declared.image.ImageInfo.{ImageInfo}
use Rattle.smp_model.specs.declared.image.ImageFault.{ImageFault}
use Rattle.smp_model.specs.declared.image.ImageFault.TheVariants.{Tlvs}
use Rattle.smp_tlv.specs.declared.tlv.Hashes.{Hashes}
use Rattle.smp_tlv.specs.declared.tlv.Hashes.TheVariants.{Missing, One, Unfit}
use Rattle.smp_tlv.specs.declared.tlv.Walk.{Walk}

-- the only hash, where these hashes follow what was found
abbrev pub only_with : Hashes → List Tlv → Option (List ℕ)
only_with Missing ts = only_hash ts
only_with (One hash) [] = Some hash
only_with (One hash) (t ∷ ts) = None
only_with Unfit ts = None

-- the only hash, where these TLVs follow what was found
abbrev pub outcome : Hashes → Option (List Tlv) → Option (Option (List ℕ))
outcome found None = None
outcome found (Some ts) = Some (only_with found (filter is_hash ts))

-- the TLVs from a place up to an end
abbrev pub tlvs_between : ℕ → ℕ → List ℕ → Option (List Tlv)
tlvs_between at end held = tlvs_of (area at (end - at) held)

-- after one TLV the outcome is the same; where there is none, it is none
abbrev pub Follows : Hashes → ℕ → ℕ → Option Walk → List ℕ → Type 0
Follows found at end None held = outcome found (tlvs_between at end held) ≡ None
Follows found at end (Some next) held = outcome found (tlvs_between at end held) ≡ outcome next.found (tlvs_between next.at end held)

-- one TLV is at least four bytes, and ends in the area
abbrev pub GoesOn : ℕ → ℕ → Option Walk → Type 0
GoesOn at end None = Unit {0}
GoesOn at end (Some next) = (at < next.at) × (next.at ≤ end)

-- how many bytes are read of a TLV
abbrev pub tlv_cost : ℕ → ℕ → Option Walk → ℕ
tlv_cost at end None = end - at
tlv_cost at end (Some next) = next.at - at

-- one TLV more, before any others, leaves the only hash as it is with what was found
abbrev pub Adds : Hashes → Tlv → Hashes → Type 0
Adds found t next = (ts : List Tlv) → only_with found (filter is_hash (t ∷ ts)) ≡ only_with next (filter is_hash ts)

-- what is known by an area of TLVs, or the fault where there is none
abbrev pub info_by : ImageHeader → ℕ → Option (Option (List ℕ)) → Result ImageInfo ImageFault
info_by h size None = Err Tlvs
info_by h size (Some hash) = info_of h size hash

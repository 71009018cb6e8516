-- Requests that are not about images: what they mean.
use Rattle.std.proofs.Common.{ℕ, List, [], ◌∷◌, Option, Some, None, Result, Ok, Err}
use Rattle.smp_cbor.specs.declared.fault.Stop.{Stop}
use Rattle.smp_cbor.specs.Heads.{◌>>=◌}
use Rattle.smp_cbor.specs.Values.{Value, map_of}
use Rattle.smp_model.specs.Meaning.{meaning, filled, fields, some_or_invalid, or_invalid}
use Rattle.smp_model.specs.Due.{IsUpload as IsUploadRequest, IsErase}
use Rattle.smp_model.specs.Meant as meant
use Rattle.smp_model.specs.Meant.{Meant, made, name_of}
use Rattle.smp_model.specs.Table.{Name, echo_row, image_list_row, setting_write_row, save_row, file_read_row, file_write_row, Field, number, words, bytes, table}
use Rattle.smp_jobs.specs.Clients.{packet_of}

-- what the other jobs ask for
abbrev pub IsOther : Meant → Type 0
IsOther (meant.echo text) = Unit {0}
IsOther meant.image_list = Unit {0}
IsOther (meant.setting_write name val) = Unit {0}
IsOther meant.save = Unit {0}
IsOther (meant.file_read off name) = Unit {0}
IsOther (meant.file_write off part len name) = Unit {0}
IsOther m = ⊥

abbrev IsOtherName : Name → Type 0
IsOtherName echo_row = Unit {0}
IsOtherName image_list_row = Unit {0}
IsOtherName setting_write_row = Unit {0}
IsOtherName save_row = Unit {0}
IsOtherName file_read_row = Unit {0}
IsOtherName file_write_row = Unit {0}
IsOtherName n = ⊥

abbrev MadeOther : Option Meant → Type 0
MadeOther None = Unit {0}
MadeOther (Some m) = IsOther m

made_other : (n : Name) (fs : List (Option Field)) → IsOtherName n → MadeOther (made n fs)
made_other echo_row (Some (words t) ∷ []) i = tt
made_other image_list_row [] i = tt
made_other setting_write_row (Some (words name) ∷ Some (bytes val) ∷ []) i = tt
made_other save_row [] i = tt
made_other file_read_row (Some (number off) ∷ Some (words name) ∷ []) i = tt
made_other file_write_row (Some (number off) ∷ Some (bytes part) ∷ len ∷ Some (words name) ∷ []) i = tt
made_other echo_row fs i = tt
made_other image_list_row fs i = tt
made_other setting_write_row fs i = tt
made_other save_row fs i = tt
made_other file_read_row fs i = tt
made_other file_write_row fs i = tt
made_other n fs i = absurd i

abbrev pub IfOther : Result Meant ℕ → Type 0
IfOther (Ok m) = IsOther m
IfOther (Err n) = Unit {0}

some_other : (o : Option Meant) → MadeOther o → IfOther (some_or_invalid o)
some_other None h = tt
some_other (Some m) h = h

fields_other : (n : Name) (fs : Result (List (Option Field)) ℕ) → IsOtherName n → IfOther (fs >>= λ x. some_or_invalid (made n x))
fields_other n (Ok fs) i = some_other (made n fs) (made_other n fs i)
fields_other n (Err e) i = tt

row_other : (n : Name) (ps : Result (List (List ℕ × Value)) Stop) → IsOtherName n → IfOther (or_invalid ps >>= filled n)
row_other n (Ok ps) i = fields_other n (fields (table n).keys ps) i
row_other n (Err e) i = tt

pub other_means : (q : ℕ) (m : Meant) → IsOther m → IfOther (meaning (packet_of q m))
other_means q (meant.echo text) i = row_other echo_row (map_of (packet_of q (meant.echo text)).bytes) tt
other_means q meant.image_list i = row_other image_list_row (map_of (packet_of q meant.image_list).bytes) tt
other_means q (meant.setting_write name val) i = row_other setting_write_row (map_of (packet_of q (meant.setting_write name val)).bytes) tt
other_means q meant.save i = row_other save_row (map_of (packet_of q meant.save).bytes) tt
other_means q (meant.file_read off name) i = row_other file_read_row (map_of (packet_of q (meant.file_read off name)).bytes) tt
other_means q (meant.file_write off part len name) i = row_other file_write_row (map_of (packet_of q (meant.file_write off part len name)).bytes) tt
other_means q meant.reset i = absurd i
other_means q m i = absurd i

pub not_upload : (m : Meant) → IsOther m → (IsUploadRequest m → ⊥) × (IsErase m → ⊥)
not_upload m i = (λ u. no_upload m i u, λ e. no_erase m i e)
  where
    no_upload : (m : Meant) → IsOther m → IsUploadRequest m → ⊥
    no_upload (meant.upload image len off sha part) i u = i
    no_upload m i u = absurd u

    no_erase : (m : Meant) → IsOther m → IsErase m → ⊥
    no_erase (meant.erase slot) i u = i
    no_erase m i u = absurd u

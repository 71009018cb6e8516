-- Requests that do not touch some settings by name: what they mean, and what they leave as it was.
use Rattle.std.proofs.Common.{◌≡◌, ◌<◌, ◌^◌, ℕ, zero, suc, List, [], ◌∷◌, length, Option, Some, None, Result, Ok, Err, refl, sym, subst, ◌∙◌, arith}
use Rattle.smp_cbor.specs.declared.fault.Stop.{Stop}
use Rattle.smp_cbor.specs.Heads.{◌>>=◌}
use Rattle.smp_cbor.specs.Shortest.{IsText}
use Rattle.smp_cbor.specs.Values.{Value, map_of}
use Rattle.smp_model.specs.declared.device.AbstractDevice.{AbstractDevice}
use Rattle.smp_model.specs.declared.device.Side.{Side}
use Rattle.smp_model.specs.declared.device.Sizes.{Sizes}
use Rattle.smp_model.specs.declared.setting.Setting.{Setting}
use Rattle.smp_model.specs.Does.{does}
use Rattle.smp_model.specs.Due.{IsChangeDue, IsStepDue}
use Rattle.smp_model.specs.Laws.{EachStep}
use Rattle.smp_model.specs.Meaning.{meaning, filled, fields, some_or_invalid, or_invalid}
use Rattle.smp_model.specs.Meant as meant
use Rattle.smp_model.specs.Meant.{Meant, made}
use Rattle.smp_model.specs.Sides.{side_apply}
use Rattle.smp_model.specs.Steps.{Change, write_setting, delete_setting, load_settings, begin_file, append_file, aim_at, Step, OnSide, Save, Run, with_side, apply, applied, changed}
use Rattle.smp_model.specs.Table.{Name, echo_row, image_list_row, image_set_row, upload_row, save_row, file_read_row, file_write_row, Field, number, words, bytes, truth, table}
use Rattle.smp_world.specs.Below.{LawsBelow, StepsAreDue}
use Rattle.smp_world.proofs.Due.{does_due}
use Rattle.smp_world.proofs.Sides.{each_along}
use Rattle.smp_jobs.specs.Clients.{packet_of}
use Rattle.smp_world.specs.SetJobs.{LacksName}

-- what other jobs ask for
abbrev pub IsElse : List Setting → Meant → Type 0
IsElse settings (meant.echo text) = Unit {0}
IsElse settings meant.image_list = Unit {0}
IsElse settings (meant.image_set hash confirm) = Unit {0}
IsElse settings (meant.upload image len off sha part) = Unit {0}
IsElse settings (meant.setting_write name val) = IsText name × (length val < 2 ^ 64) × LacksName name settings
IsElse settings meant.save = Unit {0}
IsElse settings (meant.file_read off name) = Unit {0}
IsElse settings (meant.file_write off part len name) = Unit {0}
IsElse settings m = ⊥

-- what their packets mean
abbrev pub Spares : List Setting → Meant → Type 0
Spares settings (meant.echo text) = Unit {0}
Spares settings meant.image_list = Unit {0}
Spares settings (meant.image_set hash confirm) = Unit {0}
Spares settings (meant.upload image len off sha part) = Unit {0}
Spares settings (meant.setting_write name val) = LacksName name settings
Spares settings meant.save = Unit {0}
Spares settings (meant.file_read off name) = Unit {0}
Spares settings (meant.file_write off part len name) = Unit {0}
Spares settings m = ⊥

abbrev IsElseName : Name → Type 0
IsElseName echo_row = Unit {0}
IsElseName image_list_row = Unit {0}
IsElseName image_set_row = Unit {0}
IsElseName upload_row = Unit {0}
IsElseName save_row = Unit {0}
IsElseName file_read_row = Unit {0}
IsElseName file_write_row = Unit {0}
IsElseName n = ⊥

abbrev MadeElse : List Setting → Option Meant → Type 0
MadeElse settings None = Unit {0}
MadeElse settings (Some m) = Spares settings m

made_else : (settings : List Setting) (n : Name) (fs : List (Option Field)) → IsElseName n → MadeElse settings (made n fs)
made_else settings echo_row (Some (words t) ∷ []) i = tt
made_else settings image_list_row [] i = tt
made_else settings image_set_row (hash ∷ Some (truth confirm) ∷ []) i = tt
made_else settings upload_row (image ∷ len ∷ Some (number off) ∷ sha ∷ Some (bytes part) ∷ None ∷ []) i = tt
made_else settings save_row [] i = tt
made_else settings file_read_row (Some (number off) ∷ Some (words name) ∷ []) i = tt
made_else settings file_write_row (Some (number off) ∷ Some (bytes part) ∷ len ∷ Some (words name) ∷ []) i = tt
made_else settings echo_row fs i = tt
made_else settings image_list_row fs i = tt
made_else settings image_set_row fs i = tt
made_else settings upload_row fs i = tt
made_else settings save_row fs i = tt
made_else settings file_read_row fs i = tt
made_else settings file_write_row fs i = tt
made_else settings n fs i = absurd i

abbrev pub IfSpares : List Setting → Result Meant ℕ → Type 0
IfSpares settings (Ok m) = Spares settings m
IfSpares settings (Err n) = Unit {0}

some_else : (settings : List Setting) (o : Option Meant) → MadeElse settings o → IfSpares settings (some_or_invalid o)
some_else settings None h = tt
some_else settings (Some m) h = h

fields_else : (settings : List Setting) (n : Name) (fs : Result (List (Option Field)) ℕ) → IsElseName n → IfSpares settings (fs >>= λ x. some_or_invalid (made n x))
fields_else settings n (Ok fs) i = some_else settings (made n fs) (made_else settings n fs i)
fields_else settings n (Err e) i = tt

row_else : (settings : List Setting) (n : Name) (ps : Result (List (List ℕ × Value)) Stop) → IsElseName n → IfSpares settings (or_invalid ps >>= filled n)
row_else settings n (Ok ps) i = fields_else settings n (fields (table n).keys ps) i
row_else settings n (Err e) i = tt

pub else_means : LawsBelow → (settings : List Setting) (q : ℕ) (m : Meant) → IsElse settings m → IfSpares settings (meaning (packet_of q m))
else_means law settings q (meant.echo text) i = row_else settings echo_row (map_of (packet_of q (meant.echo text)).bytes) tt
else_means law settings q meant.image_list i = row_else settings image_list_row (map_of (packet_of q meant.image_list).bytes) tt
else_means law settings q (meant.image_set hash confirm) i = row_else settings image_set_row (map_of (packet_of q (meant.image_set hash confirm)).bytes) tt
else_means law settings q (meant.upload image len off sha part) i = row_else settings upload_row (map_of (packet_of q (meant.upload image len off sha part)).bytes) tt
else_means law settings q (meant.setting_write name val) i =
    subst (IfSpares settings) (sym (law.requests 1 q (meant.setting_write name val) (omega arith) (i.0, (i.1, tt)))) i.2
else_means law settings q meant.save i = row_else settings save_row (map_of (packet_of q meant.save).bytes) tt
else_means law settings q (meant.file_read off name) i = row_else settings file_read_row (map_of (packet_of q (meant.file_read off name)).bytes) tt
else_means law settings q (meant.file_write off part len name) i = row_else settings file_write_row (map_of (packet_of q (meant.file_write off part len name)).bytes) tt
else_means law settings q meant.reset i = absurd i
else_means law settings q m i = absurd i

-- Steps that leave the running settings as they are.
abbrev pub IsNoChange : Change → Type 0
IsNoChange (write_setting name val) = ⊥
IsNoChange (delete_setting name) = ⊥
IsNoChange load_settings = ⊥
IsNoChange (begin_file name announced part) = Unit {0}
IsNoChange (append_file name part) = Unit {0}
IsNoChange (aim_at image) = Unit {0}

abbrev pub KeepsRunning : Step → Type 0
KeepsRunning (OnSide image step) = Unit {0}
KeepsRunning Save = Unit {0}
KeepsRunning (Run c) = IsNoChange c

side_running : (i : ℕ) (f : Side → Side) (d : AbstractDevice) → (with_side i f d).running ≡ d.running
side_running zero f d = refl
side_running (suc zero) f d = refl
side_running (suc (suc n)) f d = refl

change_running : (c : Change) (d : AbstractDevice) → IsNoChange c → (changed c d).running ≡ d.running
change_running (write_setting name val) d h = absurd h
change_running (delete_setting name) d h = absurd h
change_running load_settings d h = absurd h
change_running (begin_file name announced part) d h = refl
change_running (append_file name part) d h = refl
change_running (aim_at image) d h = refl

pub running_same : (steps : List Step) (d : AbstractDevice) → EachStep KeepsRunning steps → (applied steps d).running ≡ d.running
running_same [] d h = refl
running_same (OnSide i t ∷ steps) d h = running_same steps (apply (OnSide i t) d) h.1 ∙ side_running i (side_apply t) d
running_same (Save ∷ steps) d h = running_same steps (apply Save d) h.1
running_same (Run c ∷ steps) d h = running_same steps (apply (Run c) d) h.1 ∙ change_running c d h.0

abbrev pub IsNoWrite : Meant → Type 0
IsNoWrite (meant.setting_write name val) = ⊥
IsNoWrite m = Unit {0}

due_no_change : (settings : List Setting) (target : ℕ) (m : Meant) (d : AbstractDevice) (c : Change) → Spares settings m → IsNoWrite m → IsChangeDue target m d c → IsNoChange c
due_no_change settings target m d (write_setting name val) s w h = subst IsNoWrite h w
due_no_change settings target m d (delete_setting name) s w h = subst (Spares settings) h s
due_no_change settings target m d load_settings s w h = subst (Spares settings) h s
due_no_change settings target m d (begin_file name announced part) s w h = tt
due_no_change settings target m d (append_file name part) s w h = tt
due_no_change settings target m d (aim_at image) s w h = tt

due_keeps : (settings : List Setting) (sizes : Sizes) (target : ℕ) (m : Meant) → Spares settings m → IsNoWrite m → (d : AbstractDevice) (t : Step) → IsStepDue sizes target m d t → KeepsRunning t
due_keeps settings sizes target m s w d (OnSide i t) h = tt
due_keeps settings sizes target m s w d Save h = tt
due_keeps settings sizes target m s w d (Run c) h = due_no_change settings target m d c s w h

pub else_same : StepsAreDue → (settings : List Setting) (sizes : Sizes) (d : AbstractDevice) (m : Meant) → Spares settings m → IsNoWrite m → EachStep KeepsRunning (does sizes d m).steps
else_same law settings sizes d m s w = each_along (IsStepDue sizes d.target m) KeepsRunning (does sizes d m).steps d (due_keeps settings sizes d.target m s w) (does_due law sizes d m)

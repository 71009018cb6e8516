-- A record is told by its bytes, and a cell by its own.
use Rattle.std.proofs.Common.{◌≡◌, inl, inr, ℕ, ◌+◌, ◌<◌, ◌≤◌, ◌^◌, Bool, true, false, Option, Some, None, List, [], ◌∷◌, drop, refl, sym, ◌∙◌, ap, arith, get_or, ◌==◌}
use Rattle.std.specs.Int.{w32, to_be_bytes, from_be_bytes}
use Rattle.std.proofs.lemmas.Nat.{from_be_bytes-to_be_bytes_4}
use Rattle.smp_flash.specs.Geometry.{slot_size}
use Rattle.smp_flash.specs.declared.geometry.Geometry.{Geometry}
use Rattle.smp_model.specs.declared.upload.Announcement.{Announcement}
use Rattle.smp_progress.specs.Cells.{cell_bytes, IsCell}
use Rattle.smp_progress.specs.Record.{record_bytes, IsUpload, IsRecord, IsBody, number_in, digest_in, record_in}
use Rattle.smp_progress.specs.declared.record.Record.{Record}
use Rattle.smp_progress.specs.declared.record.Record.TheVariants as records

upload_again : (version image n offset : ℕ) (digest : Option (List ℕ)) (rescue : Bool) → n < 2 ^ 32 → offset < 2 ^ 32
    → record_in (record_bytes version image (records.Upload (record { length = n; digest = digest }) offset rescue)) ≡ records.Upload (record { length = n; digest = digest }) offset rescue
upload_again version image n offset None false a b = λ i. records.Upload (record { length = from_be_bytes-to_be_bytes_4 n a i; digest = None }) (from_be_bytes-to_be_bytes_4 offset b i) false
upload_again version image n offset None true a b = λ i. records.Upload (record { length = from_be_bytes-to_be_bytes_4 n a i; digest = None }) (from_be_bytes-to_be_bytes_4 offset b i) true
upload_again version image n offset (Some digest) false a b = λ i. records.Upload (record { length = from_be_bytes-to_be_bytes_4 n a i; digest = Some digest }) (from_be_bytes-to_be_bytes_4 offset b i) false
upload_again version image n offset (Some digest) true a b = λ i. records.Upload (record { length = from_be_bytes-to_be_bytes_4 n a i; digest = Some digest }) (from_be_bytes-to_be_bytes_4 offset b i) true

pub record_again : (g : Geometry) (version image : ℕ) (x : Record) → slot_size g ≤ 2 ^ 22 → IsRecord g x → record_in (record_bytes version image x) ≡ x
record_again g version image records.None le l = refl
record_again g version image (records.Upload a offset rescue) le l =
    let most : a.length + g.page ≤ slot_size g = l.most in
    let within : offset ≤ a.length = l.within in
    upload_again version image a.length offset a.digest rescue (omega arith) (omega arith)

-- the fields of a body say its record
pub body_again : (g : Geometry) (image : ℕ) (x : Record) (body : List ℕ) → slot_size g ≤ 2 ^ 22 → IsRecord g x → IsBody image x body → record_in body ≡ x
body_again g image x body le l b = ap record_in b.bytes ∙ record_again g b.version image x le l

-- so a body is of one record at most
pub one_body : (g : Geometry) (image : ℕ) (x y : Record) (body : List ℕ) → slot_size g ≤ 2 ^ 22 → IsRecord g x → IsRecord g y → IsBody image x body → IsBody image y body → x ≡ y
one_body g image x y body le l m a b = sym (body_again g image x body le l a) ∙ body_again g image y body le m b

-- the fields of a cell say its offset and kind
offset_again : (rescue : Bool) (offset : ℕ) → offset < 2 ^ 32 → number_in 4 (cell_bytes rescue offset) ≡ offset
offset_again rescue offset low = from_be_bytes-to_be_bytes_4 offset low

rescue_again : (rescue : Bool) (offset : ℕ) → (get_or (cell_bytes rescue offset) 0 0 == 2) ≡ rescue
rescue_again false offset = refl
rescue_again true offset = refl

pub cell_offset : (g : Geometry) (a : Announcement) (cell : List ℕ) → slot_size g ≤ 2 ^ 22 → (c : IsCell g a cell) → number_in 4 cell ≡ c.offset
cell_offset g a cell le c =
    let most : a.length + g.page ≤ slot_size g = c.lawful.most in
    let within : c.offset ≤ a.length = c.lawful.within in
    ap (number_in 4) c.bytes ∙ offset_again c.rescue c.offset (omega arith)

pub cell_rescue : (g : Geometry) (a : Announcement) (cell : List ℕ) → (c : IsCell g a cell) → (get_or cell 0 0 == 2) ≡ c.rescue
cell_rescue g a cell c = ap (λ (xs : List ℕ). get_or xs 0 0 == 2) c.bytes ∙ rescue_again c.rescue c.offset

pub refused : (b : Bool) (P : Type 0) → (P → b ≡ true) → P → b ≡ false → ⊥
refused true P f p e = cc e
refused false P f p e = let t : false ≡ true = f p in cc t

-- a body begins with its version, and is spelled by its fields
version_told : (version image : ℕ) (x : Record) → get_or (record_bytes version image x) 0 0 ≡ version
version_told version image records.None = refl
version_told version image (records.Upload a offset rescue) = refl

pub spelled : (image number : ℕ) (entry found : Record) (body : List ℕ) → number ≡ image → found ≡ entry → IsBody image entry body → body ≡ record_bytes (get_or body 0 0) number found
spelled image number entry found body n f b =
    let v : b.version ≡ get_or body 0 0 = sym (ap (λ (xs : List ℕ). get_or xs 0 0) b.bytes ∙ version_told b.version image entry) in
    b.bytes ∙ (λ i. record_bytes (v i) (sym n i) (sym f i))

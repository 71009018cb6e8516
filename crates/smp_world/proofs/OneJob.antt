-- One upload job alone: what it knows of its upload where all of the file was accepted.
use Rattle.std.proofs.Common.{◌≡◌, inl, inr, ◌≤◌, ◌<◌, ◌^◌, ◌&&◌, nat_lt, cond, eqb, ℕ, List, [], ◌∷◌, length, take, drop, Bool, true, false, Option, Some, None, Result, Ok, refl, sym, ap, subst, ◌∙◌, arith}
use Rattle.std.specs.Prelude.{IfSome, IsSome, All, Contains}
use Rattle.std.proofs.lemmas.Bool.Decides.{nat_tests}
use Rattle.sha2.specs.Sha256.{sha256}
use Rattle.smp_cbor.specs.Shortest.{shortest}
use Rattle.smp_flash.specs.declared.arm.ArmKind.{ArmKind}
use Rattle.smp_flash.specs.declared.arm.ArmKind.TheVariants as arms
use Rattle.smp_model.specs.declared.device.AbstractDevice.{AbstractDevice}
use Rattle.smp_model.specs.declared.device.Side.{Side}
use Rattle.smp_model.specs.declared.device.Sizes.{Sizes}
use Rattle.smp_model.specs.declared.device.Upload.{Upload}
use Rattle.smp_model.specs.declared.upload.Announcement.{Announcement}
use Rattle.smp_model.specs.declared.upload.Ending.{Ending}
use Rattle.smp_model.specs.declared.upload.Ending.TheVariants as endings
use Rattle.smp_model.specs.Does.{does}
use Rattle.smp_model.specs.Errors.{GroupError, group_errors, version_1_among}
use Rattle.smp_model.specs.ImageGroup.{side_of}
use Rattle.smp_model.specs.Laws.{OffsetHeld, ReplyHeld, MatchHolds}
use Rattle.smp_model.specs.Meaning.{meaning}
use Rattle.smp_model.specs.Meant as meant
use Rattle.smp_model.specs.Meant.{Meant}
use Rattle.smp_model.specs.Said as said
use Rattle.smp_model.specs.Said.{Said, reply_message, reply_value}
use Rattle.smp_model.specs.Steps.{Step, side_at, applied}
use Rattle.smp_world.specs.Below.{LawsBelow}
use Rattle.smp_reply.specs.declared.answer.Asked.TheVariants as kinds
use Rattle.smp_reply.specs.Sendable.{IsSendable}
use Rattle.smp_reply.specs.Told as told
use Rattle.smp_reply.specs.Told.{Told}
use Rattle.smp_jobs.specs.Clients.{Client, packet_of}
use Rattle.smp_device.specs.Goings.{Armed, Went, Goes, IsToldBy, group_of}
use Rattle.smp_jobs.specs.Jobs.{UploadJob, uploads as uploads_job, done, image_key, start_of, part_of}
use Rattle.smp_world.specs.Runs.{Event, Moment, Run as IsRun, state_at_end, first_state}
use Rattle.smp_world.specs.UploadJobs.{announcement_of, upload_of, IsWhole, IsUpload, IsDoneBy, IsAmong, AreTagged}
use Rattle.smp_world.proofs.Cases.{both}
use Rattle.smp_world.proofs.DoneJobs.{Sound, done_knows}
use Rattle.smp_world.proofs.Durably.{side_alike}
use Rattle.smp_world.proofs.Fronts.{front_full}
use Rattle.smp_world.proofs.FairPackets.{means, start_means, part_means}
use Rattle.smp_world.proofs.Marked.{IsRefusal, marked_is}
use Rattle.smp_world.proofs.Pending.{RequestsSame}
use Rattle.smp_world.proofs.UploadReplies.{PartsTrue, part_true, refusal_read}
use Rattle.smp_world.proofs.FairSteps.{OfSome, AllOfJobs, fair_applied, start_request_fair, part_request_fair}
use Rattle.smp_world.proofs.UploadClients.{Knows, DoneBy, IsPartOf, the_start, a_part, IsTrue}
use Rattle.smp_world.proofs.WholeUploads.{Only, whole_steps}
use Rattle.smp_world.proofs.ReplyShapes.{There, own_front, part_there, start_there}

-- What a reply tells.
abbrev pub OffsetsHeld : Type 0
OffsetsHeld = (sizes : Sizes) (d : AbstractDevice) (image len : Option ℕ) (off : ℕ) (sha : Option (List ℕ)) (part : List ℕ)
    → IfSome (side_at (side_of d.target image off sha) (applied (does sizes d (meant.upload image len off sha part)).steps d))
    (λ s. ReplyHeld (does sizes d (meant.upload image len off sha part)).reply s.upload × MatchHolds (does sizes d (meant.upload image len off sha part)).reply s.upload)

abbrev pub RepliesSent : Type 0
RepliesSent = (sizes : Sizes) (d : AbstractDevice) (m : Meant) → IsSendable (does sizes d m).reply

abbrev PartSaid : UploadJob → AbstractDevice → Said → Type 0
PartSaid j d (said.offset off m) = (off ≤ length j.file) × (off ≡ length j.file → (m ≡ Some false → ⊥) → IsWhole j d)
PartSaid j d (said.group_error g n) = IsRefusal g n
PartSaid j d s = ⊥

whole_told : (j : UploadJob) (i : ℕ) → 0 < length j.file → (u : Option Upload) (off : ℕ) (m : Option Bool) → OfSome (Only j) i u → OffsetHeld off m u → off ≡ length j.file → (m ≡ Some false → ⊥)
    → (u ≡ upload_of j j.file) × (j.image ≡ i)
whole_told j i some None off m f (inl zero_) e n = absurd (omega (arith, zero_, e, some))
whole_told j i some None off m f (inr wrong) e n = absurd (n wrong)
whole_told j i some (Some u) off m f h e n =
    let full : u.accepted ≡ j.file = front_full u.accepted j.file (own_front j i u f) (omega (arith, h, e)) in (
      ap Some (ap (λ (a : Announcement). record { announcement = a; accepted = u.accepted }) (f.announced ∙ ap announcement_of f.is) ∙ ap (λ (x : List ℕ). record { announcement = announcement_of j; accepted = x }) full),
      sym (ap (λ (k : UploadJob). k.image) f.is) ∙ f.on,
    )

-- numbers of errors are small
abbrev are_small : List GroupError → Bool
are_small [] = true
are_small (e ∷ es) = nat_lt e.number 256 && are_small es

small_table : are_small group_errors ≡ true
small_table = refl

small_among : (es : List GroupError) → are_small es ≡ true → (group number : ℕ) → IsSome (version_1_among es group number) → number < 256
small_among [] e group number is = absurd cc
small_among (x ∷ es) e group number is =
    let a = both (nat_lt x.number 256) (are_small es) e in
    by_test (eqb group x.group && eqb number x.number) refl a.0 (λ is. small_among es a.1 group number is) is
  where
    by_test : (b : Bool) → (eqb group x.group && eqb number x.number) ≡ b → nat_lt x.number 256 ≡ true → (IsSome (version_1_among es group number) → number < 256)
        → IsSome (cond b (Some x.version_1) (version_1_among es group number)) → number < 256
    by_test true t few rest is = let s = both (eqb group x.group) (eqb number x.number) t in grind (arith, nat_tests, s.1, few)
    by_test false t few rest is = rest is

part_said : (j : UploadJob) (i : ℕ) (e : AbstractDevice) (s : Said) → 0 < length j.file → AllOfJobs (Only j) e → IsSendable s → There j (side_at i e) s
    → IfSome (side_at i e) (λ t. ReplyHeld s t.upload × MatchHolds s t.upload) → PartSaid j e s
part_said j i e (said.offset off m) some f is h held = (h.0, λ full n. by_side (side_at i e) refl h.1 held full n)
  where
    by_side : (o : Option Side) → side_at i e ≡ o → IsSome o → IfSome o (λ t. ReplyHeld (said.offset off m) t.upload × MatchHolds (said.offset off m) t.upload) → off ≡ length j.file → (m ≡ Some false → ⊥) → IsWhole j e
    by_side None found i_ k full n = cc
    by_side (Some t) found i_ k full n =
        let told = whole_told j i some t.upload off m (f i t found) k.0 full n in
        record { side = t; found = subst (λ (n : ℕ). side_at n e ≡ Some t) (sym told.1) found; fact = told.0 }
part_said j i e (said.group_error g n) some f is h held = (h, small_among group_errors small_table g n is, is)
part_said j i e (said.smp_error n) some f is h held = absurd h
part_said j i e said.empty some f is h held = absurd h
part_said j i e (said.echo t) some f is h held = absurd h
part_said j i e said.parameters some f is h held = absurd h
part_said j i e (said.stat_group a b c) some f is h held = absurd h
part_said j i e said.stat_list some f is h held = absurd h
part_said j i e (said.images a b) some f is h held = absurd h
part_said j i e (said.setting v) some f is h held = absurd h
part_said j i e (said.file_part a b c) some f is h held = absurd h
part_said j i e (said.file_length l) some f is h held = absurd h
part_said j i e (said.file_hash a b c) some f is h held = absurd h
part_said j i e said.file_types some f is h held = absurd h

-- reading it
abbrev some_told : Told → Option Told
some_told t = Some t

said_read : LawsBelow → (j : UploadJob) (d : AbstractDevice) (s : Said) → length j.file < 2 ^ 32 → PartSaid j d s → (off : ℕ) (matched : Option Bool)
    → told.told kinds.Offset (shortest (reply_value 1 s)) ≡ Some (told.offset off matched) → off ≡ length j.file → (matched ≡ Some false → ⊥) → IsWhole j d
said_read law j d (said.offset off m) size t o matched e is n =
    let few = t.0 in
    let same = same_offset off o m matched (sym (law.replies 1 kinds.Offset (said.offset off m) (omega (arith, few, size)) tt) ∙ e) in
    t.1 (same.0 ∙ is) (λ w. n (sym same.1 ∙ w))
  where
    same_offset : (a b : ℕ) (m n : Option Bool) → some_told (told.offset a m) ≡ some_told (told.offset b n) → (a ≡ b) × (m ≡ n)
    same_offset a b m n e = (cc, cc)
said_read law j d (said.group_error group n) size t o matched e is w = absurd (differ group n o matched (sym (refusal_read law kinds.Offset group n t) ∙ e))
  where
    differ : (group n o : ℕ) (matched : Option Bool) → some_told (told.refused (Some group) n) ≡ some_told (told.offset o matched) → ⊥
    differ group n o matched e = cc
said_read law j d (said.smp_error n) size t o matched e is w = absurd t
said_read law j d said.empty size t o matched e is w = absurd t
said_read law j d (said.echo x) size t o matched e is w = absurd t
said_read law j d said.parameters size t o matched e is w = absurd t
said_read law j d (said.stat_group a b c) size t o matched e is w = absurd t
said_read law j d said.stat_list size t o matched e is w = absurd t
said_read law j d (said.images a b) size t o matched e is w = absurd t
said_read law j d (said.setting v) size t o matched e is w = absurd t
said_read law j d (said.file_part a b c) size t o matched e is w = absurd t
said_read law j d (said.file_length l) size t o matched e is w = absurd t
said_read law j d (said.file_hash a b c) size t o matched e is w = absurd t
said_read law j d said.file_types size t o matched e is w = absurd t

-- what the only job knows
abbrev pub Whole : UploadJob → Knows
Whole j k d = k ≡ j → IsWhole k d

abbrev TrueReply : UploadJob → AbstractDevice → ℕ → Meant → Said → Type 0
TrueReply j d q r s = IsTrue (Whole j) j d (reply_message (packet_of q r) s)

reply_true : LawsBelow → (j : UploadJob) (d : AbstractDevice) (q : ℕ) (r : Meant) (s : Said) → IsUpload j → IsPartOf j r → PartSaid j d s → TrueReply j d q r s
reply_true law j d q r s is p h = part_true (Whole j) j d q r s p (λ off matched got full n same. said_read law j d s is.size h off matched got full n)

struck_true : LawsBelow → (j : UploadJob) (d : AbstractDevice) (q : ℕ) (r : Meant) (k : ArmKind) (reply : Option Said) → IsUpload j → IsPartOf j r → IsToldBy k 1 reply → IfSome reply (TrueReply j d q r)
struck_true law j d q r arms.Cut reply is p t = subst (λ (o : Option Said). IfSome o (TrueReply j d q r)) (sym t) tt
struck_true law j d q r arms.Fail reply is p (inl t) = subst (λ (o : Option Said). IfSome o (TrueReply j d q r)) (sym t) (reply_true law j d q r (said.group_error 1 12) is p (refl, omega arith, refl))
struck_true law j d q r arms.Fail reply is p (inr t) = subst (λ (o : Option Said). IfSome o (TrueReply j d q r)) (sym t) (reply_true law j d q r (said.group_error 1 13) is p (refl, omega arith, refl))
struck_true law j d q r arms.Read reply is p t = subst (λ (o : Option Said). IfSome o (TrueReply j d q r)) (sym t) (reply_true law j d q r (said.group_error 1 11) is p (refl, omega arith, refl))

pub only_tagged : (j : UploadJob) → IsUpload j → AreTagged (Only j)
only_tagged j is = record {
  uploads = λ k e. subst IsUpload (sym e) is;
  files = λ a b p q e. ap (λ (k : UploadJob). k.file) (p ∙ sym q);
}

request_said : OffsetsHeld → RepliesSent → (sizes : Sizes) (j : UploadJob) (d : AbstractDevice) (r : Meant) → IsUpload j → IsPartOf j r → AllOfJobs (Only j) d → PartSaid j (applied (does sizes d r).steps d) (does sizes d r).reply
request_said held sent sizes j d r is (the_start e) f = subst (λ (x : Meant). PartSaid j (applied (does sizes d x).steps d) (does sizes d x).reply) (sym e)
    (part_said j (side_of d.target (image_key j.image) 0 (Some (sha256 j.file))) (applied (does sizes d (start_of j)).steps d) (does sizes d (start_of j)).reply is.some
    (fair_applied (Only j) (does sizes d (start_of j)).steps d (start_request_fair (Only j) j (only_tagged j is) refl sizes d f) f)
    (sent sizes d (start_of j)) (start_there sizes j d f) (held sizes d (image_key j.image) (Some (length j.file)) 0 (Some (sha256 j.file)) (take j.chunk j.file)))
request_said held sent sizes j d r is (a_part off some le e) f = subst (λ (x : Meant). PartSaid j (applied (does sizes d x).steps d) (does sizes d x).reply) (sym e)
    (part_said j (side_of d.target (image_key j.image) off (Some (sha256 j.file))) (applied (does sizes d (part_of j off)).steps d) (does sizes d (part_of j off)).reply is.some
    (fair_applied (Only j) (does sizes d (part_of j off)).steps d (part_request_fair (Only j) j off (only_tagged j is) refl sizes d f) f)
    (sent sizes d (part_of j off)) (part_there sizes j off d f) (held sizes d (image_key j.image) None off (Some (sha256 j.file)) (take j.chunk (drop off j.file))))

pub request_means : LawsBelow → (j : UploadJob) (q : ℕ) (r : Meant) → IsUpload j → IsPartOf j r → meaning (packet_of q r) ≡ means r
request_means law j q r is (the_start e) = subst (λ (x : Meant). meaning (packet_of q x) ≡ means x) (sym e) (start_means law j q is)
request_means law j q r is (a_part off some le e) = subst (λ (x : Meant). meaning (packet_of q x) ≡ means x) (sym e) (part_means law j q off le is)

group_of_part : (j : UploadJob) (r : Meant) → IsPartOf j r → group_of r ≡ 1
group_of_part j r (the_start e) = ap group_of e
group_of_part j r (a_part off some le e) = ap group_of e

goes_true : LawsBelow → OffsetsHeld → RepliesSent → (sizes : Sizes) (j : UploadJob) (h : Option Armed) (d : AbstractDevice) (q : ℕ) (r : Meant) (w : Went) → IsUpload j → IsPartOf j r → AllOfJobs (Only j) d
    → Goes sizes h d (Ok r) w → IfSome w.reply (TrueReply j (applied w.taken d) q r)
goes_true law held sent sizes j h d q r w is p f (inl plain) =
    subst (λ (o : Option Said). IfSome o (TrueReply j (applied w.taken d) q r)) (sym plain.reply)
    (subst (λ (t : List Step). TrueReply j (applied t d) q r (does sizes d r).reply) (sym plain.taken)
    (reply_true law j (applied (does sizes d r).steps d) q r (does sizes d r).reply is p (request_said held sent sizes j d r is p f)))
goes_true law held sent sizes j h d q r w is p f (inr struck) =
    struck_true law j (applied w.taken d) q r struck.arm.kind w.reply is p
    (subst (λ (g : ℕ). IsToldBy struck.arm.kind g w.reply) (ap group_of (sym (same r struck.request struck.means)) ∙ group_of_part j r p) struck.reply)
  where
    same : (m n : Meant) → means m ≡ means n → m ≡ n
    same m n e = cc

own_parts : LawsBelow → OffsetsHeld → RepliesSent → (j : UploadJob) → IsUpload j → PartsTrue (Only j) (Whole j) j
own_parts law held sent j is = λ sizes h d q r w p f g.
    goes_true law held sent sizes j h d q r w is p f (subst (λ (x : Result Meant ℕ). Goes sizes h d x w) (request_means law j q r is p) g)

only_sound : LawsBelow → OffsetsHeld → RepliesSent → (j : UploadJob) → IsUpload j → Sound (Only j) (Whole j)
only_sound law held sent j is = record {
  tagged = only_tagged j is;
  own = λ k e n same info good hash. same ∙ sym e;
  kept = record {
    alike = λ k d e same v is_. let w = v is_ in record { side = w.side; found = side_alike k.image d e same ∙ w.found; fact = w.fact };
    along = λ k steps d along f v is_. subst (λ (x : UploadJob). IsWhole x (applied steps d)) (sym is_) (whole_steps j steps d along (subst (λ (x : UploadJob). IsWhole x d) is_ (v is_)));
  };
  parts = λ k e. subst (PartsTrue (Only j) (Whole j)) (sym e) (own_parts law held sent j is);
}

by_ending : (j : UploadJob) (ending : Ending) (d : AbstractDevice) → DoneBy (Whole j) j ending d → IsDoneBy j ending d
by_ending j endings.Only d h = h refl
by_ending j endings.Test d h = marked_is j d h
by_ending j endings.Confirm d h = marked_is j d h

pub done_alone : LawsBelow → RequestsSame → OffsetsHeld → RepliesSent → (sizes : Sizes) (image : List ℕ) (second : Option (List ℕ)) (j : UploadJob) (events : List Event) (moments : List Moment) (c : Client)
    → IsUpload j → All (IsAmong (λ k. k ≡ j)) events → IsRun sizes (first_state sizes image second) events moments
    → Contains (state_at_end (first_state sizes image second) moments).clients c → c.job ≡ uploads_job j → c.ended ≡ Some done
    → IsDoneBy j j.ending (state_at_end (first_state sizes image second) moments).device
done_alone law same held sent sizes image second j events moments c is of_ r has job ended =
    by_ending j j.ending (state_at_end (first_state sizes image second) moments).device
    (done_knows law same (Only j) (Whole j) (only_sound law held sent j is) sizes image second events moments c j of_ r has job ended).1

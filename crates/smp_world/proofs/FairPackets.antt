-- What the jobs of a run ask for, where each upload job is one of some.
use Rattle.std.proofs.Common.{◌≡◌, ◌≤◌, ◌<◌, ◌^◌, ℕ, zero, suc, List, [], ◌∷◌, length, take, drop, Some, None, Result, Ok, Err, refl, sym, ap, subst, arith, length-append}
use Rattle.std.proofs.lemmas.List.{take-append-drop}
use Rattle.sha2.specs.Sha256.{sha256}
use Rattle.sha2.proofs.Facts256.{length-sha256}
use Rattle.smp_header.specs.Message.{Message}
use Rattle.smp_model.specs.declared.setting.Setting.{Setting}
use Rattle.smp_model.specs.Meaning.{meaning}
use Rattle.smp_model.specs.Meant as meant
use Rattle.smp_model.specs.Meant.{Meant, fields_of}
use Rattle.smp_reply.specs.Told.{Told}
use Rattle.smp_request.specs.Held.{CanHoldEach}
use Rattle.smp_jobs.specs.Clients.{packet_of, begun}
use Rattle.smp_jobs.specs.Jobs.{UploadJob, Job, uploads, lists, sets, puts, gets, echoes, image_key, start_of, part_of, mark_of, next, first_of, nth_of_set, put_start, put_part}
use Rattle.smp_world.specs.Runs.{begins}
use Rattle.smp_world.specs.UploadJobs.{IsUpload, IsAmong, AreTagged}
use Rattle.smp_world.specs.Below.{LawsBelow}
use Rattle.smp_world.proofs.Fronts.{front_short}
use Rattle.smp_world.proofs.OtherRequests.{IsOther, IfOther, other_means, not_upload}
use Rattle.smp_world.proofs.FairSteps.{Uploads, IsFairRequest, start_request_fair, part_request_fair, other_request_fair}
use Rattle.smp_world.proofs.ClientKinds.{Kind, AsksFor, IsOfKind, HasKind, UploadKind, put_kind, get_kind, one_kind, set_kind, upload_kind}

-- What the packets of an upload job mean.
short : (chunk : ℕ) (file : List ℕ) → length (take chunk file) ≤ length file
short chunk file = front_short (take chunk file) file (drop chunk file, sym (take-append-drop chunk file))

dropped_short : (off : ℕ) (file : List ℕ) → length (drop off file) ≤ length file
dropped_short off file = omega (arith, length-append (take off file) (drop off file), ap length (take-append-drop off file))

start_fits : (j : UploadJob) → IsUpload j → CanHoldEach (fields_of (start_of j))
start_fits j is = go j.image is.image
  where
    few : length (take j.chunk j.file) ≤ length j.file
    few = short j.chunk j.file

    size : length j.file < 2 ^ 32
    size = is.size

    go : (n : ℕ) → n ≤ 1 → CanHoldEach (fields_of (meant.upload (image_key n) (Some (length j.file)) 0 (Some (sha256 j.file)) (take j.chunk j.file)))
    go zero h = (tt, (size, (omega arith, (omega (arith, length-sha256 j.file), (omega (arith, few, size), (tt, tt))))))
    go (suc n) h = (omega (arith, h), (size, (omega arith, (omega (arith, length-sha256 j.file), (omega (arith, few, size), (tt, tt))))))

part_fits : (j : UploadJob) (off : ℕ) → off ≤ length j.file → IsUpload j → CanHoldEach (fields_of (part_of j off))
part_fits j off le is = go j.image is.image
  where
    few : length (take j.chunk (drop off j.file)) ≤ length (drop off j.file)
    few = short j.chunk (drop off j.file)

    fewer : length (drop off j.file) ≤ length j.file
    fewer = dropped_short off j.file

    size : length j.file < 2 ^ 32
    size = is.size

    go : (n : ℕ) → n ≤ 1 → CanHoldEach (fields_of (meant.upload (image_key n) None off (Some (sha256 j.file)) (take j.chunk (drop off j.file))))
    go zero h = (tt, (tt, (omega (arith, le, size), (omega (arith, length-sha256 j.file), (omega (arith, few, fewer, size), (tt, tt))))))
    go (suc n) h = (omega (arith, h), (tt, (omega (arith, le, size), (omega (arith, length-sha256 j.file), (omega (arith, few, fewer, size), (tt, tt))))))

mark_fits : (j : UploadJob) → IsUpload j → CanHoldEach (fields_of (mark_of j))
mark_fits j is = let size = is.hash in (omega (arith, size), (tt, tt))

abbrev pub means : Meant → Result Meant ℕ
means m = Ok m

pub start_means : LawsBelow → (j : UploadJob) (q : ℕ) → IsUpload j → meaning (packet_of q (start_of j)) ≡ means (start_of j)
start_means law j q is = law.requests 1 q (start_of j) (omega arith) (start_fits j is)

pub part_means : LawsBelow → (j : UploadJob) (q off : ℕ) → off ≤ length j.file → IsUpload j → meaning (packet_of q (part_of j off)) ≡ means (part_of j off)
part_means law j q off le is = law.requests 1 q (part_of j off) (omega arith) (part_fits j off le is)

pub mark_means : LawsBelow → (j : UploadJob) (q : ℕ) → IsUpload j → meaning (packet_of q (mark_of j)) ≡ means (mark_of j)
mark_means law j q is = law.requests 1 q (mark_of j) (omega arith) (mark_fits j is)

-- Packets that leave each upload one of a job.
abbrev pub FairMeans : Uploads → Result Meant ℕ → Type 0
FairMeans J (Ok m) = IsFairRequest J m
FairMeans J (Err n) = Unit {0}

abbrev pub FairMessage : Uploads → Message → Type 0
FairMessage J m = FairMeans J (meaning m)

abbrev pub FairKind : Uploads → Kind
FairKind J m = (q : ℕ) → FairMessage J (packet_of q m)

fair_other : LawsBelow → (J : Uploads) (m : Meant) → IsOther m → FairKind J m
fair_other law J m i q = by_meaning (meaning (packet_of q m)) (other_means q m i)
  where
    by_meaning : (mm : Result Meant ℕ) → IfOther mm → FairMeans J mm
    by_meaning (Ok r) o = other_request_fair law.due J r (not_upload r o)
    by_meaning (Err n) o = tt

fair_uploads : LawsBelow → (J : Uploads) (j : UploadJob) → AreTagged J → J j → UploadKind (FairKind J) j
fair_uploads law J j tagged is = record {
  start = λ q. subst (FairMeans J) (sym (start_means law j q (tagged.uploads j is))) (start_request_fair J j tagged is);
  part = λ off some le q. subst (FairMeans J) (sym (part_means law j q off le (tagged.uploads j is))) (part_request_fair J j off tagged is);
  mark = λ q. subst (FairMeans J) (sym (mark_means law j q (tagged.uploads j is))) (other_request_fair law.due J (mark_of j) (λ x. x, λ x. x));
}

sets_ask : LawsBelow → (J : Uploads) (settings : List Setting) (n : ℕ) → AsksFor (FairKind J) (nth_of_set settings n)
sets_ask law J [] zero = fair_other law J meant.save tt
sets_ask law J [] (suc n) = tt
sets_ask law J (s ∷ settings) zero = fair_other law J (meant.setting_write s.name s.val) tt
sets_ask law J (s ∷ settings) (suc n) = sets_ask law J settings n

pub job_asks : LawsBelow → (J : Uploads) → AreTagged J → (job : Job) → IsAmong J (begins job) → (answers : List Told) → AsksFor (FairKind J) (next job answers)
job_asks law J tagged (uploads j) is answers = upload_kind (FairKind J) j (fair_uploads law J j tagged is) answers
job_asks law J tagged lists is answers = one_kind (FairKind J) meant.image_list (fair_other law J meant.image_list tt) answers
job_asks law J tagged (sets settings) is answers = set_kind (FairKind J) settings (sets_ask law J settings) answers
job_asks law J tagged (puts name file) is answers = put_kind (FairKind J) name file (fair_other law J (put_start name file) tt) (λ off. fair_other law J (put_part name file off) tt) answers
job_asks law J tagged (gets name) is answers = get_kind (FairKind J) name (λ off. fair_other law J (meant.file_read off name) tt) answers
job_asks law J tagged (echoes text) is answers = one_kind (FairKind J) (meant.echo text) (fair_other law J (meant.echo text) tt) answers

first_asked : LawsBelow → (J : Uploads) → AreTagged J → (job : Job) → IsAmong J (begins job) → FairKind J (first_of job)
first_asked law J tagged (uploads j) is = (fair_uploads law J j tagged is).start
first_asked law J tagged lists is = fair_other law J meant.image_list tt
first_asked law J tagged (sets []) is = fair_other law J meant.save tt
first_asked law J tagged (sets (s ∷ settings)) is = fair_other law J (meant.setting_write s.name s.val) tt
first_asked law J tagged (puts name file) is = fair_other law J (put_start name file) tt
first_asked law J tagged (gets name) is = fair_other law J (meant.file_read 0 name) tt
first_asked law J tagged (echoes text) is = fair_other law J (meant.echo text) tt

pub begun_kind : LawsBelow → (J : Uploads) → AreTagged J → (job : Job) → IsAmong J (begins job) → HasKind (FairKind J) (begun job)
begun_kind law J tagged job is = record {
  job = job_asks law J tagged job is;
  packet = record { sequence = 0; request = first_of job; kind = first_asked law J tagged job is; packet = refl };
}

pub kind_fair : (J : Uploads) (m : Message) → IsOfKind (FairKind J) m → FairMessage J m
kind_fair J m k = subst (FairMessage J) (sym k.packet) (k.kind k.sequence)

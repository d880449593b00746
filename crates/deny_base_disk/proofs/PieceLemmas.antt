-- Reading a text piece by piece.
use Rattle.std.proofs.Common.{◌≡◌, ℕ, ◌+◌, ◌≤◌, List, [], ◌++◌, length, take, drop, refl, sym, ap, subst, ◌∙◌, arith}
use Rattle.std.proofs.Common.{length-append, append-nil, take_all, ltb, ltb-true, ltb-false, ◌<◌, Result, Ok, Err}
use Rattle.std.proofs.Common.{Bool, true, false, Option, Some, None, IfSome, IsErrAnd, rules}
use Rattle.std.specs.Prelude.{IsErrOf, MatchOption, MatchResult, if◌then◌else◌, unwrap_or}
use Rattle.std.proofs.Math.Seq.{take-add}
use Rattle.std.proofs.lemmas.List.{length-take, length-take-le}
use Rattle.std.proofs.lemmas.Option.{none-some}
use Rattle.deny_base_disk.specs.Count.{counted}
use Rattle.deny_base_disk.specs.Disk.{Disk, FailedAt, Files, IsLater, IsPieceOf, bytes_at, text_of}
use Rattle.deny_base_disk.specs.MemoryDisk.{file_text}
use Rattle.deny_base_disk.specs.declared.disk.Call.{Call}
use Rattle.deny_base_disk.specs.declared.disk.Place.{Place}
use Rattle.deny_base_disk.specs.declared.disk.Place.TheVariants.{Folder, File}
use Rattle.deny_base_disk.specs.declared.disk.DiskError.{DiskError}
use Rattle.deny_base_disk.specs.declared.disk.DiskError.TheVariants.{Failed, Memory}
use Rattle.deny_base_disk.specs.declared.read.ReadEnd.{ReadEnd}
use Rattle.deny_base_disk.specs.declared.read.ReadEnd.TheVariants.{Fault, Long, Memory as OutOfMemory}
use Rattle.deny_base_disk.specs.Read.{GaveAtMost, GaveOnce, IsReading, read_end_of}

-- a prefix of a text with the next piece behind it is a longer prefix
prefix_more : (text bytes piece : List ℕ) → bytes ≡ take (length bytes) text
    → piece ≡ take (length piece) (drop (length bytes) text)
    → bytes ++ piece ≡ take (length (bytes ++ piece)) text
prefix_more text bytes piece prefix next =
    (λ i. prefix i ++ next i) ∙ sym (take-add (length bytes) (length piece) text)
    ∙ ap (λ n. take n text) (sym (length-append bytes piece))

text_more : (known : Option Files) (path bytes buf : List ℕ) (at n : ℕ) → n ≤ length buf → at ≡ length bytes
    → IfSome known (λ files. bytes ≡ take (length bytes) (bytes_at files path))
    → IfSome known (λ files. IsPieceOf (bytes_at files path) at n buf)
    → IfSome known (λ files. bytes ++ take n buf ≡ take (length (bytes ++ take n buf)) (bytes_at files path))
text_more None path bytes buf at n fits here prefix next = search rules
text_more (Some files) path bytes buf at n fits here prefix next =
    let text = bytes_at files path in
    let all : length (take n buf) ≡ n = length-take-le n buf fits in
    prefix_more text bytes (take n buf) prefix (next.bytes ∙ ap (λ k. take n (drop k text)) here
    ∙ ap (λ k. take k (drop (length bytes) text)) (sym all))

pub reading_more : (start old new : Disk) (path bytes buf : List ℕ) (at n : ℕ) → n ≤ length buf → at ≡ length bytes
    → IsReading start old path bytes → IsLater old new → new.given ≡ counted old.given n → new.faults ≡ old.faults
    → IfSome old.files (λ files. IsPieceOf (bytes_at files path) at n buf)
    → IsReading start new path (bytes ++ take n buf)
reading_more start old new path bytes buf at n fits here reading later given same next = record {
  later = record {
    files = later.files ∙ reading.later.files;
    faults = omega arith;
    faults_at = λ call path. omega (arith, reading.later.faults_at call path, later.faults_at call path);
    given = omega arith;
    listed = omega arith;
  };
  given = omega (arith, given, reading.given, length-append bytes (take n buf), length-take-le n buf fits);
  once = omega (arith, given, reading.once, length-append bytes (take n buf), length-take-le n buf fits);
  faults = same ∙ reading.faults;
  text = (let P : Option Files → Type 0 = λ known. IfSome known (λ files. IsPieceOf (bytes_at files path) at n buf) in
      text_more start.files path bytes buf at n fits here reading.text (subst P reading.later.files next));
}

-- a failed call after other calls
pub failed_then : (start between now : Disk) (call : Call) (path : List ℕ) → IsLater start between
    → FailedAt between now call path → FailedAt start now call path
failed_then start between now call path before failed = record {
  faults = omega (arith, before.faults, failed.faults);
  faults_at = omega (arith, before.faults_at call path, failed.faults_at);
}

-- a text is as long as what was read of it, or longer
pub long_text : (known : Option Files) (path bytes : List ℕ) (n : ℕ) → n ≤ length bytes
    → IfSome known (λ files. bytes ≡ take (length bytes) (bytes_at files path))
    → IfSome known (λ files. n ≤ length (bytes_at files path))
long_text None path bytes n least prefix = tt
long_text (Some files) path bytes n least prefix =
    omega (arith, least, ap length prefix, length-take (length bytes) (bytes_at files path))

-- the bytes given before a piece, and by it
pub gave_then : (a b c : Disk) (few more : Files → ℕ) → b.files ≡ a.files → GaveAtMost a b few → GaveAtMost b c more
    → GaveAtMost a c (λ files. few files + more files)
gave_then a b c few more same before behind = by_files a.files before
    (subst (λ (told : Option Files). IfSome told (λ files. c.given ≤ b.given + more files)) same behind)
  where
    by_files : (told : Option Files) → IfSome told (λ files. b.given ≤ a.given + few files)
        → IfSome told (λ files. c.given ≤ b.given + more files)
        → IfSome told (λ files. c.given ≤ a.given + (few files + more files))
    by_files None before behind = tt
    by_files (Some files) before behind = omega (arith, before, behind)

pub gave_within : (a b : Disk) (few more : Files → ℕ) → ((files : Files) → few files ≤ more files)
    → GaveAtMost a b few → GaveAtMost a b more
gave_within a b few more fewer gave = by_files a.files gave
  where
    by_files : (told : Option Files) → IfSome told (λ files. b.given ≤ a.given + few files)
        → IfSome told (λ files. b.given ≤ a.given + more files)
    by_files None gave = tt
    by_files (Some files) gave = omega (arith, gave, fewer files)

-- the text that a call reads is the one at the path
pub text_read : (fails : Bool) (place : Option Place) (text : List ℕ)
    → (if fails then None else file_text place) ≡ Some text → text_of place ≡ text
text_read true place text is = absurd (none-some text is)
text_read false None text is = absurd (none-some text is)
text_read false (Some Folder) text is = absurd (none-some text is)
text_read false (Some (File bytes)) text is = ap (λ (o : Option (List ℕ)). unwrap_or o []) is

-- the piece that a call copies is of the text at the path
pub piece_given : (told : Option (List ℕ)) (bytes : List ℕ) (result : Option ℕ) (count : List ℕ → ℕ) (offset n : ℕ)
    (buf : List ℕ) → ((text : List ℕ) → told ≡ Some text → bytes ≡ text) → result ≡ Some n
    → MatchOption told (result ≡ None) (λ text. (result ≡ Some (count text)) × IsPieceOf text offset (count text) buf)
    → IsPieceOf bytes offset n buf
piece_given None bytes result count offset n buf here is read = absurd (none-some n (sym read ∙ is))
piece_given (Some text) bytes result count offset n buf here is read =
    subst (λ bs. IsPieceOf bs offset n buf) (sym (here text refl))
    (subst (λ k. IsPieceOf text offset k buf) (ap (λ (o : Option ℕ). unwrap_or o 0) (sym read.0 ∙ is)) read.1)

-- nothing was asked in between
pub later_same : (disk : Disk) → IsLater disk disk
later_same disk = record {
  files = refl;
  faults = omega arith;
  faults_at = λ call path. omega arith;
  given = omega arith;
  listed = omega arith;
}

pub gave_nothing : (disk : Disk) (path : List ℕ) → GaveOnce disk disk path
gave_nothing disk path = by_files disk.files
  where
    by_files : (told : Option Files) → IfSome told (λ files. disk.given ≤ disk.given + length (bytes_at files path))
    by_files None = tt
    by_files (Some files) = omega arith

pub later_then : (start between now : Disk) → IsLater start between → IsLater between now → IsLater start now
later_then start between now before behind = record {
  files = behind.files ∙ before.files;
  faults = omega (arith, before.faults, behind.faults);
  faults_at = λ call path. omega (arith, before.faults_at call path, behind.faults_at call path);
  given = omega (arith, before.given, behind.given);
  listed = omega (arith, before.listed, behind.listed);
}

-- nothing was given in between
pub gave_as : (start old new : Disk) (path : List ℕ) → new.given ≡ old.given → GaveOnce start old path
    → GaveOnce start new path
gave_as start old new path same gave =
    subst (λ n. IfSome start.files (λ files. n ≤ start.given + length (bytes_at files path))) (sym same) gave

-- what was read of a text is no longer than the text
pub gave_once : (start now : Disk) (path bytes : List ℕ) → IsReading start now path bytes → GaveOnce start now path
gave_once start now path bytes reading = by_files start.files reading.text
  where
    by_files : (told : Option Files) → IfSome told (λ files. bytes ≡ take (length bytes) (bytes_at files path))
        → IfSome told (λ files. now.given ≤ start.given + length (bytes_at files path))
    by_files None prefix = tt
    by_files (Some files) prefix =
        omega (arith, reading.once, ap length prefix, length-take (length bytes) (bytes_at files path))

-- ---- whether there was a piece

pub some_read : (n : ℕ) (answer : Result Bool ReadEnd) → answer ≡ Ok (ltb 0 n) → answer ≡ Ok true → 0 < n
some_read n answer told is = let more : ltb 0 n ≡ true = cc in ltb-true 0 n more

pub none_read : (n : ℕ) (answer : Result Bool ReadEnd) → answer ≡ Ok (ltb 0 n) → answer ≡ Ok false → n ≡ 0
none_read n answer told is =
    let none : ltb 0 n ≡ false = cc in
    let least : n ≤ 0 = ltb-false 0 n none in
    omega arith

pub longer_by : (bytes buf new : List ℕ) (n : ℕ) → n ≤ length buf → new ≡ bytes ++ take n buf → 0 < n
    → length bytes < length new
longer_by bytes buf new n fits made some =
    omega (arith, ap length made, length-append bytes (take n buf), length-take-le n buf fits)

pub same_by : (bytes buf new : List ℕ) (n : ℕ) → new ≡ bytes ++ take n buf → n ≡ 0 → new ≡ bytes
same_by bytes buf new n made none = made ∙ ap (λ k. bytes ++ take k buf) none ∙ append-nil bytes

-- where there was no piece, the whole text has been read
pub whole_at_end : (told : Option Files) (path bytes buf new : List ℕ) (at n : ℕ) → at ≡ length bytes → n ≡ 0
    → 0 < length buf → new ≡ bytes
    → IfSome told (λ files. bytes ≡ take (length bytes) (bytes_at files path))
    → IfSome told (λ files. IsPieceOf (bytes_at files path) at n buf)
    → IfSome told (λ files. new ≡ bytes_at files path)
whole_at_end None path bytes buf new at n here none room same prefix piece = tt
whole_at_end (Some files) path bytes buf new at n here none room same prefix piece =
    let text = bytes_at files path in
    let past : length text ≤ at = piece.ends none room in
    same ∙ prefix ∙ take_all (length bytes) text (omega (arith, past, here))

-- ---- the results of reading

-- out of memory is neither a fault nor too long
pub memory_no_fault : {T : Type 0} (r : Result T ReadEnd) → IsErrAnd r (λ e. e ≡ OutOfMemory) → IsErrOf r Fault → ⊥
memory_no_fault (Ok x) memory is = memory
memory_no_fault (Err e) memory is = cc

pub memory_not_long : {T : Type 0} (r : Result T ReadEnd) → IsErrAnd r (λ e. e ≡ OutOfMemory) → IsErrOf r Long → ⊥
memory_not_long (Ok x) memory is = memory
memory_not_long (Err e) memory is = cc

-- only a failed call is a fault
pub disk_failed : {T : Type 0} (r : Result T ReadEnd) (error : DiskError) → IsErrAnd r (λ e. e ≡ read_end_of error)
    → IsErrOf r Fault → error ≡ Failed
disk_failed (Ok x) error ended is = absurd ended
disk_failed (Err e) Failed ended is = refl
disk_failed (Err e) Memory ended is = cc

pub disk_not_long : {T : Type 0} (r : Result T ReadEnd) (error : DiskError) → IsErrAnd r (λ e. e ≡ read_end_of error)
    → IsErrOf r Long → ⊥
disk_not_long (Ok x) error ended is = ended
disk_not_long (Err e) Failed ended is = cc
disk_not_long (Err e) Memory ended is = cc

-- an error that was handed on
pub end_handed : {T : Type 0} (r : Result T ReadEnd) (first end : ReadEnd) → IsErrAnd r (λ e. e ≡ first)
    → IsErrOf r end → first ≡ end
end_handed (Ok x) first end ended is = absurd ended
end_handed (Err e) first end ended is = cc

-- the calls that failed before a part, and in it, where its error is handed on
pub faults_handed : {T E : Type 0} (calls : E → ℕ) (r : Result T E) (end : E) (start before now : ℕ)
    → IsErrAnd r (λ e. e ≡ end) → before ≡ start → now ≤ before + calls end
    → MatchResult r (λ _. now ≡ start) (λ e. now ≤ start + calls e)
faults_handed calls (Ok x) end start before now ended same most = absurd ended
faults_handed calls (Err e) end start before now ended same most =
    subst (λ ended_by. now ≤ start + calls ended_by) (sym ended) (omega (arith, same, most))

-- a disk that answers with an error, and has memory, failed one call
pub one_failed : (calls : DiskError → ℕ) → calls Failed ≡ 1 → (error : DiskError) (before now : ℕ)
    → (error ≡ Memory → ⊥) → now ≤ before + 1 → now ≤ before + calls error
one_failed calls one Failed before now answered most = omega (arith, one, most)
one_failed calls one Memory before now answered most = absurd (answered refl)

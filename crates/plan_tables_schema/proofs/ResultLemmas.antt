-- What holds of a value that is there.
use Rattle.std.specs.Prelude.{Result, Ok, Err, IfErr, IfOk, IsErrAnd, OnOk}

pub if_ok : {A E : Type 0} (r : Result A E) (P Q : A → Type 0) → ((a : A) → P a → Q a) → IfOk r P → IfOk r Q
if_ok (Ok a) P Q f h = f a h
if_ok (Err e) P Q f h = tt

pub on_ok : {A E : Type 0} (r : Result A E) (P : A → Type 0) (Q : Type 0) → ((a : A) → P a → Q) → IfOk r P
    → OnOk r Q
on_ok (Ok a) P Q f h = f a h
on_ok (Err e) P Q f h = tt

pub if_err : {A E : Type 0} (r : Result A E) (P Q : E → Type 0) → ((e : E) → P e → Q e) → IfErr r P → IfErr r Q
if_err (Ok a) P Q f h = tt
if_err (Err e) P Q f h = f e h

pub if_from : {A E : Type 0} (r : Result A E) (P Q : E → Type 0) → ((e : E) → P e → Q e) → IsErrAnd r P → IfErr r Q
if_from (Ok a) P Q f h = tt
if_from (Err e) P Q f h = f e h

pub still_ok : {A E : Type 0} (r : Result A E) (P Q : Type 0) → (P → Q) → OnOk r P → OnOk r Q
still_ok (Ok a) P Q f h = f h
still_ok (Err e) P Q f h = tt

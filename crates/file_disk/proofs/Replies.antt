-- What holds after a success and after a failure.
use Rattle.std.proofs.Common.{◌≡◌, Bool, true, false, refl, Result, Ok, Err, OnOk, OnErr, is_ok, is_err}

module _ {T E : Type 0} where
  pub ok_of : {A : Type 0} (reply : Result T E) → A → OnOk reply A
  ok_of (Ok x) a = a
  ok_of (Err e) a = tt

  pub err_of : {A : Type 0} (reply : Result T E) → A → OnErr reply A
  err_of (Ok x) a = tt
  err_of (Err e) a = a

  pub either_of : {A B C : Type 0} (reply : Result T E) → (A → C) → (B → C) → OnOk reply A → OnErr reply B → C
  either_of (Ok x) f h a b = f a
  either_of (Err e) f h a b = h b

  pub at_ok : {A : Type 0} (reply : Result T E) → is_ok reply ≡ true → OnOk reply A → A
  at_ok (Ok x) is a = a
  at_ok (Err e) is a = absurd cc

  pub at_err : {A : Type 0} (reply : Result T E) → is_ok reply ≡ false → OnErr reply A → A
  at_err (Ok x) is a = absurd cc
  at_err (Err e) is a = a

  pub not_err : (A : Type 0) (reply : Result T E) → is_ok reply ≡ true → OnErr reply A
  not_err A (Ok x) is = tt
  not_err A (Err e) is = absurd cc

  pub not_ok : (A : Type 0) (reply : Result T E) → is_ok reply ≡ false → OnOk reply A
  not_ok A (Ok x) is = absurd cc
  not_ok A (Err e) is = tt

  pub ok_is : (reply : Result T E) → is_ok reply ≡ true → is_err reply ≡ false
  ok_is (Ok x) is = refl
  ok_is (Err e) is = absurd cc

  pub err_is : (reply : Result T E) → is_ok reply ≡ false → is_err reply ≡ true
  err_is (Ok x) is = absurd cc
  err_is (Err e) is = refl

-- a flag that would have led to a failure wasn't set, if there was no failure
pub not_so : (flag failed : Bool) → failed ≡ false → (flag ≡ true → failed ≡ true) → flag ≡ false
not_so false failed is leads = refl
not_so true failed is leads = absurd (let so = leads refl in cc)

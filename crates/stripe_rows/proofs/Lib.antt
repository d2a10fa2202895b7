pub mod Stripe
